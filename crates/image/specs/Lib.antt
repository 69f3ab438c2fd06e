-- What the bytes of an image say, as a file of pages: read Image first, then Good. Nothing of the walk stands here. Below them
-- stand, in this order, number/specs/Bytes, header/specs/Header (1 to 11), cell/specs (the payload's split, a cell),
-- page/specs (a page's header, soundness) and record/specs; dealing/specs/File.antt says how to read them.
pub mod Pages
pub mod Payload
pub mod Schema
pub mod Maps
pub mod Image
pub mod Good
pub mod Ready
