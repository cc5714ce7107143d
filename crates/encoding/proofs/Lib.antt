pub mod UntilLaws
pub mod RecodeLaws
pub mod PlainLaws
pub mod SpellingTurns
pub mod EncodeTurns
pub mod RecodeTurns
