pub mod RoomForC
