pub mod Bits
pub mod Bools
pub mod Filled
pub mod FromFn
pub mod Overlaid
pub mod Rooms
pub mod Searches
pub mod Tests
