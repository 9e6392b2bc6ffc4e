pub mod ChainLaws
pub mod PowerLaws
pub mod TextLaws
pub mod StringLaws
pub mod UnitLaws
