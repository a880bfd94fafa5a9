pub mod ActionSteps
pub mod BlockSteps
pub mod ExpressionSteps
