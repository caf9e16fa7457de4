pub mod Courses
pub mod PolynomialFacts
pub mod CostFacts
pub mod NestFacts
pub mod RegionFacts
pub mod TrimFacts
pub mod SharperFacts
pub mod CallFacts
pub mod MachineFacts
pub mod StepFacts
pub mod TableFacts
pub mod ViolationFacts
pub mod FormFacts
pub mod LandingFacts
pub mod OutermostFacts
pub mod TotalFacts
pub mod LightFacts
mod Examples
mod LoopExamples
