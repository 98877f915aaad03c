pub mod CallForm
