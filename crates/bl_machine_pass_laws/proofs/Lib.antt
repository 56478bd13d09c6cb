pub mod OnFlags
pub mod OnKeys
pub mod OnNumbers
pub mod OnRooted
pub mod OnSame
pub mod OnSlots
pub mod OnSpots
