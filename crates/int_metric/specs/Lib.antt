pub mod SumLaws
pub mod MostLaws
pub mod BitLaws
