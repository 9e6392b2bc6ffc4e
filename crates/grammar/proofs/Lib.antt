pub mod UnitExact
pub mod ValueExact
pub mod CommandExact
pub mod WordExact
pub mod TextSound
pub mod TextComplete
pub mod Exact
pub mod Examples
