-- Zigzag paths, and checkpoints that stand together.
--     Paths       zigzag paths, from the table alone
--     Names       checkpoints that two lists name, and paths between them
--     Together    which lines have them all, and that there is one just where no path leads from one to another
pub mod Names
pub mod Paths
pub mod Together
