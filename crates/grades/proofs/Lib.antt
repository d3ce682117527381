pub mod OneGrade
mod Energy
