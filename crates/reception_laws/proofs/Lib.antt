mod LateReceptions
mod ReceivedFrames
mod ReceptionsHeard
mod ShortReceptions
mod SpoiledReceptions
mod ToldOctets
mod ToldOnce
pub mod WholeReceptions
pub mod NetworkReceptions
