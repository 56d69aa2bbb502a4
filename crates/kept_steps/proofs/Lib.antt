pub mod StepsPlaced
pub mod KeepLaws
pub mod StepsRetained
