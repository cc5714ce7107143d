pub mod NormalizeLaws
