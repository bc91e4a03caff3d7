pub mod Lambda
