pub mod ToldBodiesExample
pub mod SoundSends
