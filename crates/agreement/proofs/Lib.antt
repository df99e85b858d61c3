pub mod CountLaws
pub mod AgreeLaws
