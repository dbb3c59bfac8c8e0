pub mod FolderLemmas
pub mod FolderReads
pub mod ReadLemmas
pub mod ReadingLemmas
