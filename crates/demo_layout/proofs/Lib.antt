mod RowsInOrder
mod DifferentItems
mod NamesOfDemo
mod TapsOfDemo
mod TreeOfDemo
mod SoundDemo
