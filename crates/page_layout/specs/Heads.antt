-- The head page: what it says, its grammar, and its one written form.
use Rattle.std.specs.Prelude.{◌≡◌, ℕ, ◌<◌, ◌≤◌, ◌^◌, ◌==◌, Bool, nat_le, if◌then◌else◌, List, ◌∷◌, ◌++◌, replicate, Result, Err, IsTrue}
use Rattle.vec_record.specs.declared.kind.MetricKind.{MetricKind}
use Rattle.vec_record.specs.declared.kind.MetricKind.TheVariants.{L1, Max, Hamming}
use Rattle.vec_record.specs.declared.params.Params as params
use Rattle.vec_record.specs.Limits.{is_between, are_within}
use Rattle.page_gate.specs.Gate.{number_4}
use Rattle.page_layout.specs.declared.fault.LayoutFault.{LayoutFault}
use Rattle.page_layout.specs.declared.fault.LayoutFault.TheVariants.{Foreign}
use Rattle.page_layout.specs.declared.head.Head as head
use Rattle.page_layout.specs.Fields.{Field, word, zero_fields, first_bad, unless_bad}

-- the parameters of a store in plain numbers
pub record Values : Type 0 where
  pub metric : MetricKind
  pub dim : ℕ
  pub eps : ℕ
  pub minpts : ℕ
  pub cap : ℕ

abbrev pub values_of : params.Params → Values
values_of p = record { metric = p.metric; dim = p.dim; eps = p.eps; minpts = p.minpts; cap = p.cap }

-- what a head page says: the number of pages, the version, the parameters, how many batches were accepted, how many
-- records there are, and the place of the tree's root with its height
pub record HeadValue : Type 0 where
  pub pages : ℕ
  pub version : ℕ
  pub values : Values
  pub batches : ℕ
  pub count : ℕ
  pub root : ℕ
  pub height : ℕ

abbrev pub plain : head.Head → HeadValue
plain h = record { pages = h.pages; version = h.version; values = values_of h.params; batches = h.batches; count = h.count; root = h.root; height = h.height }

-- the number that stands for a metric, and the metric of a number from 1 to 3
abbrev pub metric_number : MetricKind → ℕ
metric_number L1 = 1
metric_number Max = 2
metric_number Hamming = 3

abbrev pub metric_of : ℕ → MetricKind
metric_of n = if n == 1 then L1 else if n == 2 then Max else Hamming

-- the greatest dimension under the metric of a number
abbrev pub dim_limit : ℕ → ℕ
dim_limit metric = if metric == 3 then 2048 else 256

-- the one version whose pages are known
abbrev pub known_version : ℕ
known_version = 1

-- whether a root is lawful beside the number of records: it is 0 exactly where there is none
abbrev pub is_root : ℕ → ℕ → Bool
is_root count root = if count == 0 then root == 0 else nat_le 1 root

-- whether a height is lawful beside the number of records: it is 0 where there is none, and else 1 to 6
abbrev pub is_height : ℕ → ℕ → Bool
is_height count height = if count == 0 then height == 0 else is_between 1 6 height

-- the fields of a head page by rising offset, but for the version, which is judged first
unfoldable pub head_fields : List ℕ → List Field
head_fields page =
    (0, nat_le 2 (number_4 0 page))
    ∷ (8, is_between 1 3 (number_4 8 page))
    ∷ (12, is_between 1 (dim_limit (number_4 8 page)) (number_4 12 page))
    ∷ (16, is_between 0 65535 (number_4 16 page))
    ∷ (20, is_between 1 65535 (number_4 20 page))
    ∷ (24, is_between 1 200000 (number_4 24 page))
    ∷ (32, nat_le (number_4 32 page) (number_4 24 page))
    ∷ (36, is_root (number_4 32 page) (number_4 36 page))
    ∷ (40, is_height (number_4 32 page) (number_4 40 page))
    ∷ zero_fields 44 16340 page

-- what the fields say
unfoldable pub values_in : List ℕ → Values
values_in page = record {
  metric = metric_of (number_4 8 page);
  dim = number_4 12 page;
  eps = number_4 16 page;
  minpts = number_4 20 page;
  cap = number_4 24 page;
}

unfoldable pub head_in : List ℕ → HeadValue
head_in page = record {
  pages = number_4 0 page;
  version = number_4 4 page;
  values = values_in page;
  batches = number_4 28 page;
  count = number_4 32 page;
  root = number_4 36 page;
  height = number_4 40 page;
}

-- what a page says as a head page: foreign where the version isn't known, damaged at the first field that isn't lawful
unfoldable pub head_of : List ℕ → Result HeadValue LayoutFault
head_of page = if number_4 4 page == known_version then unless_bad (first_bad (head_fields page)) (head_in page) else Err Foreign

-- what a head page may say
pub record IsHead (h : HeadValue) : Type 0 where
  pub version : h.version ≡ known_version
  pub pages : 2 ≤ h.pages
  pub pages_fit : h.pages < 2 ^ 32
  pub values : IsTrue (are_within h.values.metric h.values.dim h.values.eps h.values.minpts h.values.cap)
  pub batches : h.batches < 2 ^ 32
  pub count : h.count ≤ h.values.cap
  pub root : IsTrue (is_root h.count h.root)
  pub root_fits : h.root < 2 ^ 32
  pub height : IsTrue (is_height h.count h.height)

-- its written form, 16,384 bytes
unfoldable pub head_page : HeadValue → List ℕ
head_page h =
    word h.pages ++ (word h.version ++ (word (metric_number h.values.metric) ++ (word h.values.dim ++ (word h.values.eps ++ (word h.values.minpts
    ++ (word h.values.cap ++ (word h.batches ++ (word h.count ++ (word h.root ++ (word h.height ++ replicate 16340 0))))))))))
