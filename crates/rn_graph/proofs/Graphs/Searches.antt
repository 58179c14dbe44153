-- The search along the edges of a graph.
pub mod EdgesLeft
pub mod Rising
pub mod KeptGroups
pub mod Closing
pub mod Ranking
