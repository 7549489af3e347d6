-- The laws of runs.
pub mod RunLaws
pub mod LimitLaws
pub mod SequelLaws
pub mod PauseLaws
pub mod RoomLaws
