mod Among
mod Choices
mod Unread
