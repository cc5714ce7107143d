pub mod DecodeLaws
pub mod EncodeLaws
pub mod CanonicalLaws
pub mod WrittenLaws
pub mod PartLaws
pub mod DecodeTurns
pub mod StopLaws
pub mod ShortLaws
