pub mod SectionLists
