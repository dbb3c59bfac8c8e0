-- Lemmas about first and last indices, from `reasoning`.
pub use Rattle.reasoning.proofs.FirstLemmas.{option_or-none as or_else-none, option_or-some as or_else-some, option_or_parts as or_else_parts}
pub use Rattle.reasoning.proofs.FirstLemmas.{first_below-more, first_below-from, first_below-found, first_below-next, last_below-hit, last_below-miss}
pub use Rattle.reasoning.proofs.FirstLemmas.{last_below-within, no_fault, any_below-more, any_below-found, any_between-empty, any_between-more}
pub use Rattle.reasoning.proofs.FirstLemmas.{any_between-found, first_between-empty, first_between-more, first_between-found, first_below-start}
pub use Rattle.reasoning.proofs.FirstLemmas.{searches, first_below-none, any_below-none, any_between-none, first_between-none, any_between-some}
pub use Rattle.reasoning.proofs.FirstLemmas.{last_below-is, first_below-all, first_between-all, any_between-all, IsLastBelow, last_below-some, passes}
