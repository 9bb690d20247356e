-- Laws on runs that callers cite.
--
--   High           the letters that are high in a run
--   BaseLetters    words of base letters in a run
--   Blocks         which runs share a block, and what confounding means
--   ThreeBlocks    runs and blocks of three-level plans
--   Alike          places beyond the counts are ignored
pub mod High
pub mod BaseLetters
pub mod Blocks
pub mod ThreeBlocks
pub mod Alike
