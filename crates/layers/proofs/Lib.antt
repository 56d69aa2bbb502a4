pub mod LayeredAnswers
pub mod LayersMeaning
