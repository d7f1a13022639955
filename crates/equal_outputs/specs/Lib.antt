pub mod EqualRoots
