-- How new cores and old labels are tied together while the groups are made, and what is found near
-- lost cores and split by label.
pub mod Ties
pub mod Found
pub mod Split
