pub mod FrontsOfFiles
pub mod TextsByPieces
pub mod FilesInTurn
pub mod RunEnds
