pub mod FreeColumns
pub mod PushedRows
pub mod RowSpaces
