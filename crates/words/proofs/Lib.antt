pub mod DigitsRead
