-- The number and word for every end: SPECIFICATION 6.2.
use Rattle.std.specs.Prelude.{ℕ, cond, List, [], ◌∷◌, eqb, None, Option, Some}
use Rattle.search.specs.declared.ends.End.{End}
use Rattle.search.specs.declared.ends.End.TheVariants.{Done, Steps, Depth, Names, Size, Space}

abbrev pub end_number : End → ℕ
end_number Done = 0
end_number Steps = 20
end_number Depth = 21
end_number Names = 24
end_number Size = 22
end_number Space = 23

-- done, steps, depth, names, size, space
abbrev pub end_word : End → List ℕ
end_word Done = 100 ∷ 111 ∷ 110 ∷ 101 ∷ []
end_word Steps = 115 ∷ 116 ∷ 101 ∷ 112 ∷ 115 ∷ []
end_word Depth = 100 ∷ 101 ∷ 112 ∷ 116 ∷ 104 ∷ []
end_word Names = 110 ∷ 97 ∷ 109 ∷ 101 ∷ 115 ∷ []
end_word Size = 115 ∷ 105 ∷ 122 ∷ 101 ∷ []
end_word Space = 115 ∷ 112 ∷ 97 ∷ 99 ∷ 101 ∷ []

-- the end of a number, if the table has it
abbrev pub end_of : ℕ → Option End
end_of n =
    cond (eqb n 0) (Some Done)
    (cond (eqb n 20) (Some Steps)
    (cond (eqb n 21) (Some Depth)
    (cond (eqb n 22) (Some Size)
    (cond (eqb n 23) (Some Space)
    (cond (eqb n 24) (Some Names) None)))))
