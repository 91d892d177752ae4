pub mod InBoundsReads
