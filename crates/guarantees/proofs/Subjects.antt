-- The proofs of `Promised`, by subject: runs that are granted, their answers, their lists, and what more lending does; nesting, and texts there and back; ground
-- terms compared; buffers after a refusal, and numbers.
use Rattle.std.specs.Prelude.{ℕ, ◌≡◌}
use Rattle.std.proofs.Common.{arith}
pub mod Granting
pub mod AnswersTrue
pub mod GrantedList
pub mod MoreLent
pub mod Nesting
pub mod Texts
pub mod ComparedByLaws
pub mod Refusing
pub mod RefusalNumbers

-- what follows of two constructors said to be equal: `impossible (cc)`
pub impossible : {P : Type 0} → ◌≡◌ {A = ℕ} 0 1 → P
impossible e = absurd (omega arith)
