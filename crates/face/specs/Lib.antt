-- What a reader must believe of sessions that are lent.
pub mod Face
