-- Laws of numbers read in a straight line, of a record's serial types side by side, and of a cell whose payload lies on its page.
mod ShortLaws
mod RecordLaws
mod LocalLaws
