pub mod ValueReading
pub mod BodyReading
pub mod RequestReading
pub mod ValueWritten
pub mod BodyWritten
pub mod RequestWritten
