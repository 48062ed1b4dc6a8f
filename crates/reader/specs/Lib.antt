pub mod LentBuffers
