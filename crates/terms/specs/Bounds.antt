-- The numbers that bound words, questions and paths: one record of parameters. Every definition that speaks of one of them takes the record,
-- and `edition_one` has the numbers of edition 1 as its value: SPECIFICATION 3.1, 3.2, 3.4 and 4.6.
use Rattle.std.specs.Prelude.{ℕ, ◌+◌, ◌≤◌}
use Rattle.std.proofs.Common.{arith}
use Rattle.room.specs.Parts.{Apart, earlier}

pub record Bounds : Type 0 where
  -- the word of unknown 0, and how many words from there on count as unknowns
  pub first_unknown : ℕ
  pub unknown_words : ℕ
  -- the word of functor 0, and how many words from there on count as functors
  pub first_functor : ℕ
  pub functor_words : ℕ
  -- how many unknowns a question may have, and how many a path
  pub unknowns : ℕ
  pub path_unknowns : ℕ
  pub functors : ℕ
  pub arity : ℕ
  pub equations : ℕ
  -- the words of a question's terms together, and of the ground terms lent to one call
  pub symbols : ℕ
  pub nesting : ℕ

-- the words of the empty set and of member adding, in every edition
abbrev pub EMPTY : ℕ
EMPTY = 0

abbrev pub MEMBER : ℕ
MEMBER = 1

-- how many bytes there are; an arity is lent as one
abbrev pub BYTES : ℕ
BYTES = 256

-- the numbers of edition 1, under the names that the code has for them
abbrev pub FIRST_UNKNOWN : ℕ
FIRST_UNKNOWN = 1000

abbrev pub UNKNOWN_WORDS : ℕ
UNKNOWN_WORDS = 1000

abbrev pub FIRST_FUNCTOR : ℕ
FIRST_FUNCTOR = 2000

abbrev pub FUNCTOR_WORDS : ℕ
FUNCTOR_WORDS = 1000

abbrev pub UNKNOWNS : ℕ
UNKNOWNS = 256

abbrev pub PATH_UNKNOWNS : ℕ
PATH_UNKNOWNS = 512

abbrev pub FUNCTORS : ℕ
FUNCTORS = 256

abbrev pub ARITY : ℕ
ARITY = 8

abbrev pub EQUATIONS : ℕ
EQUATIONS = 64

abbrev pub SYMBOLS : ℕ
SYMBOLS = 4096

abbrev pub NESTING : ℕ
NESTING = 200

unfoldable pub edition_one : Bounds
edition_one = record {
  first_unknown = FIRST_UNKNOWN;
  unknown_words = UNKNOWN_WORDS;
  first_functor = FIRST_FUNCTOR;
  functor_words = FUNCTOR_WORDS;
  unknowns = UNKNOWNS;
  path_unknowns = PATH_UNKNOWNS;
  functors = FUNCTORS;
  arity = ARITY;
  equations = EQUATIONS;
  symbols = SYMBOLS;
  nesting = NESTING;
}

-- what the laws of words need: no word says two things, and every number in use has its word. Which of the two ranges comes first is open.
pub record Proper (b : Bounds) : Type 0 where
  pub unknowns_after_marks : 2 ≤ b.first_unknown
  pub functors_after_marks : 2 ≤ b.first_functor
  pub apart : Apart b.first_unknown b.unknown_words b.first_functor b.functor_words
  pub room_for_unknowns : b.path_unknowns ≤ b.unknown_words
  pub room_for_functors : b.functors ≤ b.functor_words
  pub room_on_a_path : b.unknowns ≤ b.path_unknowns

pub edition_one_proper : Proper edition_one
unfolding edition_one
edition_one_proper = record {
  unknowns_after_marks = omega arith;
  functors_after_marks = omega arith;
  apart = earlier (omega arith);
  room_for_unknowns = omega arith;
  room_for_functors = omega arith;
  room_on_a_path = omega arith;
}

-- unknowns' words before functors', as in edition one: then no functor at all, declared or not, has the word of an unknown
pub record UnknownsFirst (b : Bounds) : Type 0 where
  pub after_marks : 2 ≤ b.first_unknown
  pub before_functors : b.first_unknown + b.unknown_words ≤ b.first_functor

pub edition_one_unknowns_first : UnknownsFirst edition_one
unfolding edition_one
edition_one_unknowns_first = record { after_marks = omega arith; before_functors = omega arith }
