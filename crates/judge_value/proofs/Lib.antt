pub mod UnitsLaws
pub mod ElementLaws
pub mod ElementBytes
pub mod ValueLaws
pub mod ValueBytes
