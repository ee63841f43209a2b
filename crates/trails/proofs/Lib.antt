-- Laws of the trail: its ways as a whole, and the loop over the events.
pub mod Starting
pub mod Running
pub mod Left
