pub mod SplitRow
