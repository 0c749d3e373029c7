mod BadRoutes
mod FoundPlaces
pub mod RowNames
mod Found
mod PairFits
mod Faultless
mod MadeRoutes
mod MadeRows
mod Rising
mod NextArcs
mod Joining
