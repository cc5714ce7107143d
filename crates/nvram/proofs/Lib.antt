pub mod CommonLaws
pub mod CallLaws
pub mod CodeLaws
