-- What effects come to on words.
pub mod Done
