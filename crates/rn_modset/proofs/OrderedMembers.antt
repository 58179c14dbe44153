-- The order of contributions, lists that rise in it, and searches in them.
pub mod MemberOrder
pub mod ProgramOrder
pub mod RisingLists
pub mod SearchedPlaces
