pub mod ZeroProducts
pub mod CompositesAt
pub mod RanksAt
pub mod KernelBases
pub mod FollowEntries
pub mod FollowPlaces
