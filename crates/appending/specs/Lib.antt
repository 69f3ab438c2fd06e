-- A writer of write-ahead logs: the bytes of a header and of the frames of a commit, the tail of a log, what the functions answer, and the words of what is promised.
pub mod Written
pub mod Tail
pub mod Appended
pub mod Promises
pub mod Answers
pub mod Told
