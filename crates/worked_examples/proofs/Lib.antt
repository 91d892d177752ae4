pub mod EachCase
