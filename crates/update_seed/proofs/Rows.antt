-- Worked rows of what a change asks about and of anchors, computed from the definitions alone.
use Rattle.std.proofs.Common.{◌≡◌, [], ◌∷◌, None, Some, refl}
use Rattle.vec_record.specs.Distance.{sum_apart}
use Rattle.plain_dbscan.specs.Marks.{Entries, Density, density}
use Rattle.plain_dbscan.specs.Asked.{new_cores, lost_cores, asked_of_insertion, asked_of_deletion, work}
use Rattle.count_book.specs.Counted.{row_of}
use Rattle.update_seed.specs.Books.{label_due}
use Rattle.update_seed.specs.Offers.{hung}

-- four records in one place make a core, on a line
abbrev four : Density
four = density sum_apart 1 4

abbrev six : Entries
six = (1, 8 ∷ []) ∷ (2, 8 ∷ []) ∷ (3, 9 ∷ []) ∷ (4, 11 ∷ []) ∷ (5, 12 ∷ []) ∷ (6, 12 ∷ []) ∷ []

abbrev seven : Entries
seven = (1, 8 ∷ []) ∷ (2, 8 ∷ []) ∷ (3, 9 ∷ []) ∷ (4, 11 ∷ []) ∷ (5, 12 ∷ []) ∷ (6, 12 ∷ []) ∷ (7, 10 ∷ []) ∷ []

abbrev without_first : Entries
without_first = (2, 8 ∷ []) ∷ (3, 9 ∷ []) ∷ (4, 11 ∷ []) ∷ (5, 12 ∷ []) ∷ (6, 12 ∷ []) ∷ (7, 10 ∷ []) ∷ []

-- a record between two crowds makes a core of each, and is none itself
two_begin : new_cores four six seven ≡ 3 ∷ 4 ∷ []
two_begin = refl

asks_for_three : asked_of_insertion four six seven 7 ≡ 3 ∷ 4 ∷ 7 ∷ []
asks_for_three = refl

three_and_seven : work (asked_of_insertion four six seven 7) six seven ≡ 16440
three_and_seven = refl

-- without the first record the core 3 is lost, and with it the anchor of 2 and of 7
one_lost : lost_cores four seven without_first ≡ 3 ∷ []
one_lost = refl

asks_for_hung : asked_of_deletion four seven without_first 1 ≡ 1 ∷ 2 ∷ 3 ∷ 7 ∷ []
asks_for_hung = refl

-- a chain that is cut asks about all of its cores
abbrev chain : Entries
chain = (1, 0 ∷ []) ∷ (2, 1 ∷ []) ∷ (3, 2 ∷ []) ∷ (4, 3 ∷ []) ∷ (5, 4 ∷ []) ∷ []

abbrev cut : Entries
cut = (1, 0 ∷ []) ∷ (2, 1 ∷ []) ∷ (4, 3 ∷ []) ∷ (5, 4 ∷ []) ∷ []

asks_for_all : asked_of_deletion (density sum_apart 1 2) chain cut 3 ≡ 1 ∷ 2 ∷ 3 ∷ 4 ∷ 5 ∷ []
asks_for_all = refl

label_of_core : label_due four seven 4 ≡ Some 4
label_of_core = refl

label_of_border : label_due four seven 7 ≡ None
label_of_border = refl

-- a record that isn't core hangs on the least core offered, and a core on none
hung_on_least : hung 4 (5 ∷ 3 ∷ 4 ∷ []) (row_of 3 None) ≡ row_of 3 (Some 3)
hung_on_least = refl

hung_as_before : hung 4 (5 ∷ 3 ∷ []) (row_of 3 (Some 2)) ≡ row_of 3 (Some 2)
hung_as_before = refl

core_stays : hung 4 (5 ∷ 3 ∷ []) (row_of 4 None) ≡ row_of 4 None
core_stays = refl
