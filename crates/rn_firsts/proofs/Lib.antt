mod AfterChange
mod InOrder
mod Numbers
