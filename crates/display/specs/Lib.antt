pub mod PrintedTexts
pub mod PrintedKinds
