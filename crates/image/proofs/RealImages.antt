-- Images made by the sqlite3 program (3.40.1), each by the lines of SQL before it, given to `sqlite3 FILE` with no FILE there yet.
-- Another version writes another number at 96, which nothing reads. Pages have 512 bytes; `replicate n x` is a run.
use Prim.Native.Nat.{ℕ, ◌+◌, ◌-◌, ◌*◌}
use mathlib.Core.List.{List, [], ◌∷◌, ◌++◌}
use lib.ListN.{replicate, set}

-- b with other bytes from `at` on
unfoldable pub laid : List ℕ → (at : ℕ) → List ℕ → List ℕ
laid b at [] = b
laid b at (x ∷ xs) = laid (set b at x) (at + 1) xs

-- an image with other bytes at that offset of page p: damage in one line
unfoldable pub patched : List ℕ → (p offset : ℕ) → List ℕ → List ℕ
patched b p offset xs = laid b ((p - 1) * 512 + offset) xs

-- A table tree of two levels (t), its first row number negative; a payload over two overflow
-- pages, a freeblock and fragments (o); a freelist; a view. The schema is one leaf.
--     pragma page_size = 512;
--     pragma secure_delete = on;
--     create table t(x);
--     create table o(x);
--     create table d(x);
--     create view v as select 1;
--     insert into t(rowid, x) values (-3, zeroblob(230)), (1, zeroblob(230)), (2, zeroblob(230)), (5, zeroblob(230)), (7, zeroblob(230)), (300, zeroblob(100));
--     insert into o values (printf('%.470c', 'a') || printf('%.600c', 'b') || printf('%.300c', 'c')), ('two'), ('third line'), ('four');
--     delete from o where rowid = 3;
--     insert into o values ('fifthrow');
--     delete from o where rowid = 2;
--     insert into d values (zeroblob(1500));
--     drop table d;
unfoldable pub tables : List ℕ
tables =
    -- page 1
    83 ∷ 81 ∷ 76 ∷ 105 ∷ 116 ∷ 101 ∷ 32 ∷ 102 ∷ 111 ∷ 114 ∷ 109 ∷ 97 ∷ 116 ∷ 32 ∷ 51 ∷ 0 ∷ 2 ∷ 0 ∷ 1 ∷ 1 ∷ 0 ∷ 64 ∷ 32 ∷ 32 ∷ 0 ∷ 0 ∷ 0 ∷ 11 ∷ 0 ∷
    0 ∷ 0 ∷ 12 ∷ 0 ∷ 0 ∷ 0 ∷ 10 ∷ 0 ∷ 0 ∷ 0 ∷ 4 ∷ 0 ∷ 0 ∷ 0 ∷ 5 ∷ 0 ∷ 0 ∷ 0 ∷ 4 ∷ replicate 11 0 ++ 1 ∷ replicate 35 0 ++ 11 ∷ 0 ∷ 46 ∷ 99 ∷ 1 ∷ 13 ∷
    1 ∷ 157 ∷ 0 ∷ 3 ∷ 1 ∷ 118 ∷ 0 ∷ 1 ∷ 223 ∷ 1 ∷ 190 ∷ 1 ∷ 118 ∷ 1 ∷ 118 ∷ replicate 258 0 ++ 37 ∷ 4 ∷ 6 ∷ 21 ∷ 15 ∷ 15 ∷ 8 ∷ 63 ∷ 118 ∷ 105 ∷ 101 ∷
    119 ∷ 118 ∷ 118 ∷ 67 ∷ 82 ∷ 69 ∷ 65 ∷ 84 ∷ 69 ∷ 32 ∷ 86 ∷ 73 ∷ 69 ∷ 87 ∷ 32 ∷ 118 ∷ 32 ∷ 97 ∷ 115 ∷ 32 ∷ 115 ∷ 101 ∷ 108 ∷ 101 ∷ 99 ∷ 116 ∷ 32 ∷
    49 ∷ 0 ∷ 0 ∷ 0 ∷ 33 ∷ replicate 29 0 ++ 31 ∷ 2 ∷ 6 ∷ 23 ∷ 15 ∷ 15 ∷ 1 ∷ 47 ∷ 116 ∷ 97 ∷ 98 ∷ 108 ∷ 101 ∷ 111 ∷ 111 ∷ 3 ∷ 67 ∷ 82 ∷ 69 ∷ 65 ∷ 84 ∷
    69 ∷ 32 ∷ 84 ∷ 65 ∷ 66 ∷ 76 ∷ 69 ∷ 32 ∷ 111 ∷ 40 ∷ 120 ∷ 41 ∷ 31 ∷ 1 ∷ 6 ∷ 23 ∷ 15 ∷ 15 ∷ 1 ∷ 47 ∷ 116 ∷ 97 ∷ 98 ∷ 108 ∷ 101 ∷ 116 ∷ 116 ∷ 2 ∷
    67 ∷ 82 ∷ 69 ∷ 65 ∷ 84 ∷ 69 ∷ 32 ∷ 84 ∷ 65 ∷ 66 ∷ 76 ∷ 69 ∷ 32 ∷ 116 ∷ 40 ∷ 120 ∷ 41 ∷
    -- page 2
    5 ∷ 0 ∷ 0 ∷ 0 ∷ 2 ∷ 1 ∷ 246 ∷ 0 ∷ 0 ∷ 0 ∷ 0 ∷ 7 ∷ 1 ∷ 251 ∷ 1 ∷ 246 ∷ replicate 489 0 ++ 6 ∷ 5 ∷ 0 ∷ 0 ∷ 0 ∷ 5 ∷ 1 ∷
    -- page 3
    13 ∷ 0 ∷ 141 ∷ 0 ∷ 3 ∷ 0 ∷ 119 ∷ 2 ∷ 0 ∷ 148 ∷ 0 ∷ 119 ∷ 0 ∷ 127 ∷ 0 ∷ 127 ∷ replicate 103 0 ++ 6 ∷ 4 ∷ 2 ∷ 21 ∷ 102 ∷ 111 ∷ 117 ∷ 114 ∷ 10 ∷ 5 ∷
    2 ∷ 29 ∷ 102 ∷ 105 ∷ 102 ∷ 116 ∷ 104 ∷ 114 ∷ 111 ∷ 119 ∷ 0 ∷ 0 ∷ 0 ∷ 0 ∷ 0 ∷ 7 ∷ 0 ∷ 0 ∷ 0 ∷ 138 ∷ 93 ∷ 1 ∷ 3 ∷ 149 ∷ 65 ∷ replicate 354 97 ++
    0 ∷ 0 ∷ 0 ∷ 8 ∷
    -- page 4
    replicate 512 0 ++
    -- page 5
    13 ∷ 0 ∷ 0 ∷ 0 ∷ 2 ∷ 0 ∷ 32 ∷ 0 ∷ 1 ∷ 12 ∷ 0 ∷ 32 ∷ replicate 20 0 ++ 129 ∷ 105 ∷ 1 ∷ 3 ∷ 131 ∷ 88 ∷ replicate 230 0 ++ 129 ∷ 105 ∷
    replicate 8 255 ++ 253 ∷ 3 ∷ 131 ∷ 88 ∷ replicate 230 0 ++
    -- page 6
    13 ∷ 0 ∷ 0 ∷ 0 ∷ 2 ∷ 0 ∷ 40 ∷ 0 ∷ 1 ∷ 20 ∷ 0 ∷ 40 ∷ replicate 28 0 ++ 129 ∷ 105 ∷ 5 ∷ 3 ∷ 131 ∷ 88 ∷ replicate 230 0 ++ 129 ∷ 105 ∷ 2 ∷ 3 ∷ 131 ∷
    88 ∷ replicate 230 0 ++
    -- page 7
    13 ∷ 0 ∷ 0 ∷ 0 ∷ 2 ∷ 0 ∷ 170 ∷ 0 ∷ 1 ∷ 20 ∷ 0 ∷ 170 ∷ replicate 158 0 ++ 103 ∷ 130 ∷ 44 ∷ 3 ∷ 129 ∷ 84 ∷ replicate 100 0 ++ 129 ∷ 105 ∷ 7 ∷ 3 ∷
    131 ∷ 88 ∷ replicate 230 0 ++
    -- page 8
    0 ∷ 0 ∷ 0 ∷ 9 ∷ replicate 116 97 ++ replicate 392 98 ++
    -- page 9
    0 ∷ 0 ∷ 0 ∷ 0 ∷ replicate 208 98 ++ replicate 300 99 ++
    -- page 10
    replicate 7 0 ++ 3 ∷ 0 ∷ 0 ∷ 0 ∷ 11 ∷ 0 ∷ 0 ∷ 0 ∷ 12 ∷ 0 ∷ 0 ∷ 0 ∷ 4 ∷ replicate 492 0 ++
    -- page 11
    replicate 512 0 ++
    -- page 12
    replicate 512 0 ++ []

-- An index tree of two levels (w): a payload with one overflow page on its root, one with two on a leaf. A table (e) with its index.
--     pragma page_size = 512;
--     create table w(a primary key, b) without rowid;
--     create table e(x unique);
--     insert into e values (7), (3), (null);
--     with recursive c(n) as (values(1) union all select n + 1 from c where n < 14)
--       insert into w select n, case n when 10 then printf('%.560c', 'm') when 14 then
-- printf('%.500c', 'n') || printf('%.200c', 'o') else zeroblob(88) end from c;
unfoldable pub indexes : List ℕ
indexes =
    -- page 1
    83 ∷ 81 ∷ 76 ∷ 105 ∷ 116 ∷ 101 ∷ 32 ∷ 102 ∷ 111 ∷ 114 ∷ 109 ∷ 97 ∷ 116 ∷ 32 ∷ 51 ∷ 0 ∷ 2 ∷ 0 ∷ 1 ∷ 1 ∷ 0 ∷ 64 ∷ 32 ∷ 32 ∷ 0 ∷ 0 ∷ 0 ∷ 4 ∷ 0 ∷ 0 ∷
    0 ∷ 10 ∷ replicate 11 0 ++ 2 ∷ 0 ∷ 0 ∷ 0 ∷ 4 ∷ replicate 11 0 ++ 1 ∷ replicate 35 0 ++ 4 ∷ 0 ∷ 46 ∷ 99 ∷ 1 ∷ 13 ∷ 1 ∷ 186 ∷ 0 ∷ 3 ∷ 1 ∷ 111 ∷ 0 ∷
    1 ∷ 194 ∷ 1 ∷ 111 ∷ 1 ∷ 151 ∷ replicate 253 0 ++ 38 ∷ 2 ∷ 6 ∷ 23 ∷ 15 ∷ 15 ∷ 1 ∷ 61 ∷ 116 ∷ 97 ∷ 98 ∷ 108 ∷ 101 ∷ 101 ∷ 101 ∷ 3 ∷ 67 ∷ 82 ∷ 69 ∷
    65 ∷ 84 ∷ 69 ∷ 32 ∷ 84 ∷ 65 ∷ 66 ∷ 76 ∷ 69 ∷ 32 ∷ 101 ∷ 40 ∷ 120 ∷ 32 ∷ 117 ∷ 110 ∷ 105 ∷ 113 ∷ 117 ∷ 101 ∷ 41 ∷ 33 ∷ 3 ∷ 6 ∷ 23 ∷ 53 ∷ 15 ∷ 1 ∷
    0 ∷ 105 ∷ 110 ∷ 100 ∷ 101 ∷ 120 ∷ 115 ∷ 113 ∷ 108 ∷ 105 ∷ 116 ∷ 101 ∷ 95 ∷ 97 ∷ 117 ∷ 116 ∷ 111 ∷ 105 ∷ 110 ∷ 100 ∷ 101 ∷ 120 ∷ 95 ∷ 101 ∷ 95 ∷
    49 ∷ 101 ∷ 4 ∷ 0 ∷ 0 ∷ 0 ∷ 8 ∷ 0 ∷ 0 ∷ 0 ∷ 0 ∷ 60 ∷ 1 ∷ 6 ∷ 23 ∷ 15 ∷ 15 ∷ 1 ∷ 105 ∷ 116 ∷ 97 ∷ 98 ∷ 108 ∷ 101 ∷ 119 ∷ 119 ∷ 2 ∷ 67 ∷ 82 ∷ 69 ∷
    65 ∷ 84 ∷ 69 ∷ 32 ∷ 84 ∷ 65 ∷ 66 ∷ 76 ∷ 69 ∷ 32 ∷ 119 ∷ 40 ∷ 97 ∷ 32 ∷ 112 ∷ 114 ∷ 105 ∷ 109 ∷ 97 ∷ 114 ∷ 121 ∷ 32 ∷ 107 ∷ 101 ∷ 121 ∷ 44 ∷ 32 ∷
    98 ∷ 41 ∷ 32 ∷ 119 ∷ 105 ∷ 116 ∷ 104 ∷ 111 ∷ 117 ∷ 116 ∷ 32 ∷ 114 ∷ 111 ∷ 119 ∷ 105 ∷ 100 ∷
    -- page 2
    2 ∷ 0 ∷ 0 ∷ 0 ∷ 2 ∷ 1 ∷ 91 ∷ 0 ∷ 0 ∷ 0 ∷ 0 ∷ 8 ∷ 1 ∷ 158 ∷ 1 ∷ 91 ∷ replicate 334 0 ++ 6 ∷ 132 ∷ 53 ∷ 4 ∷ 1 ∷ 136 ∷ 109 ∷ 10 ∷
    replicate 52 109 ++ 0 ∷ 0 ∷ 0 ∷ 7 ∷ 0 ∷ 0 ∷ 0 ∷ 5 ∷ 93 ∷ 4 ∷ 1 ∷ 129 ∷ 60 ∷ 6 ∷ replicate 88 0 ++
    -- page 3
    13 ∷ 0 ∷ 0 ∷ 0 ∷ 3 ∷ 1 ∷ 242 ∷ 0 ∷ 1 ∷ 251 ∷ 1 ∷ 246 ∷ 1 ∷ 242 ∷ replicate 484 0 ++ 2 ∷ 3 ∷ 2 ∷ 0 ∷ 3 ∷ 2 ∷ 2 ∷ 1 ∷ 3 ∷ 3 ∷ 1 ∷ 2 ∷ 1 ∷ 7 ∷
    -- page 4
    10 ∷ 0 ∷ 0 ∷ 0 ∷ 3 ∷ 1 ∷ 240 ∷ 0 ∷ 1 ∷ 240 ∷ 1 ∷ 245 ∷ 1 ∷ 251 ∷ replicate 482 0 ++ 4 ∷ 3 ∷ 0 ∷ 1 ∷ 3 ∷ 5 ∷ 3 ∷ 1 ∷ 1 ∷ 3 ∷ 2 ∷ 4 ∷ 3 ∷ 1 ∷ 9 ∷
    7 ∷
    -- page 5
    10 ∷ 0 ∷ 0 ∷ 0 ∷ 5 ∷ 0 ∷ 43 ∷ 0 ∷ 1 ∷ 163 ∷ 1 ∷ 69 ∷ 0 ∷ 231 ∷ 0 ∷ 137 ∷ 0 ∷ 43 ∷ replicate 25 0 ++ 93 ∷ 4 ∷ 1 ∷ 129 ∷ 60 ∷ 5 ∷ replicate 88 0 ++
    93 ∷ 4 ∷ 1 ∷ 129 ∷ 60 ∷ 4 ∷ replicate 88 0 ++ 93 ∷ 4 ∷ 1 ∷ 129 ∷ 60 ∷ 3 ∷ replicate 88 0 ++ 93 ∷ 4 ∷ 1 ∷ 129 ∷ 60 ∷ 2 ∷ replicate 88 0 ++ 92 ∷
    4 ∷ 9 ∷ 129 ∷ 60 ∷ replicate 88 0 ++
    -- page 6
    10 ∷ 1 ∷ 68 ∷ 0 ∷ 3 ∷ 0 ∷ 42 ∷ 0 ∷ 0 ∷ 230 ∷ 0 ∷ 136 ∷ 0 ∷ 42 ∷ 1 ∷ 193 ∷ 1 ∷ 99 ∷ replicate 24 0 ++ 93 ∷ 4 ∷ 1 ∷ 129 ∷ 60 ∷ 9 ∷
    replicate 88 0 ++ 93 ∷ 4 ∷ 1 ∷ 129 ∷ 60 ∷ 8 ∷ replicate 88 0 ++ 93 ∷ 4 ∷ 1 ∷ 129 ∷ 60 ∷ 7 ∷ replicate 91 0 ++ 188 ∷ replicate 184 0 ++
    -- page 7
    0 ∷ 0 ∷ 0 ∷ 0 ∷ replicate 508 109 ++
    -- page 8
    10 ∷ 0 ∷ 0 ∷ 0 ∷ 4 ∷ 0 ∷ 185 ∷ 0 ∷ 1 ∷ 162 ∷ 1 ∷ 68 ∷ 0 ∷ 230 ∷ 0 ∷ 185 ∷ replicate 169 0 ++ 133 ∷ 65 ∷ 4 ∷ 1 ∷ 139 ∷ 5 ∷ 14 ∷
    replicate 34 110 ++ 0 ∷ 0 ∷ 0 ∷ 9 ∷ 93 ∷ 4 ∷ 1 ∷ 129 ∷ 60 ∷ 13 ∷ replicate 88 0 ++ 93 ∷ 4 ∷ 1 ∷ 129 ∷ 60 ∷ 12 ∷ replicate 88 0 ++ 93 ∷ 4 ∷ 1 ∷
    129 ∷ 60 ∷ 11 ∷ replicate 88 0 ++
    -- page 9
    0 ∷ 0 ∷ 0 ∷ 10 ∷ replicate 466 110 ++ replicate 42 111 ++
    -- page 10
    0 ∷ 0 ∷ 0 ∷ 0 ∷ replicate 158 111 ++ replicate 350 0 ++ []

-- The schema tree has two levels, page 1 is its root. A trigger and a view. Each page has 32 reserved bytes: U is 480.
--     pragma page_size = 512;
--     .filectrl reserve_bytes 32
--     create table a(x);
--     create trigger g insert on a begin select 'a trigger has no root page of its own, so its row has zero there'; end;
--     create view v as select 'and so has a view, whose text is long enough to fill this leaf', x from a;
--     create table b(x, y, z default 'with its default value this text takes the schema to a second leaf, and it is this that the root needs two children');
--     insert into b values (1, 2, 3);
--     create index i on b(x);
unfoldable pub schemas : List ℕ
schemas =
    -- page 1
    83 ∷ 81 ∷ 76 ∷ 105 ∷ 116 ∷ 101 ∷ 32 ∷ 102 ∷ 111 ∷ 114 ∷ 109 ∷ 97 ∷ 116 ∷ 32 ∷ 51 ∷ 0 ∷ 2 ∷ 0 ∷ 1 ∷ 1 ∷ 32 ∷ 64 ∷ 32 ∷ 32 ∷ 0 ∷ 0 ∷ 0 ∷ 6 ∷ 0 ∷
    0 ∷ 0 ∷ 6 ∷ replicate 11 0 ++ 5 ∷ 0 ∷ 0 ∷ 0 ∷ 4 ∷ replicate 11 0 ++ 1 ∷ replicate 35 0 ++ 6 ∷ 0 ∷ 46 ∷ 99 ∷ 1 ∷ 5 ∷ 0 ∷ 0 ∷ 0 ∷ 1 ∷ 1 ∷ 219 ∷ 0 ∷
    0 ∷ 0 ∷ 0 ∷ 6 ∷ 1 ∷ 219 ∷ replicate 364 0 ++ 4 ∷ 3 ∷ replicate 32 0 ++
    -- page 2
    13 ∷ 0 ∷ 0 ∷ 0 ∷ 0 ∷ 1 ∷ 224 ∷ replicate 505 0 ++
    -- page 3
    13 ∷ 0 ∷ 0 ∷ 0 ∷ 1 ∷ 1 ∷ 216 ∷ 0 ∷ 1 ∷ 216 ∷ replicate 462 0 ++ 6 ∷ 1 ∷ 4 ∷ 9 ∷ 1 ∷ 1 ∷ 2 ∷ 3 ∷ replicate 32 0 ++
    -- page 4
    13 ∷ 0 ∷ 0 ∷ 0 ∷ 3 ∷ 0 ∷ 202 ∷ 0 ∷ 1 ∷ 191 ∷ 1 ∷ 59 ∷ 0 ∷ 202 ∷ 0 ∷ 35 ∷ replicate 22 0 ++ 167 ∷ replicate 163 0 ++ 111 ∷ 3 ∷ 7 ∷ 21 ∷ 15 ∷ 15 ∷
    8 ∷ 129 ∷ 81 ∷ 118 ∷ 105 ∷ 101 ∷ 119 ∷ 118 ∷ 118 ∷ 67 ∷ 82 ∷ 69 ∷ 65 ∷ 84 ∷ 69 ∷ 32 ∷ 86 ∷ 73 ∷ 69 ∷ 87 ∷ 32 ∷ 118 ∷ 32 ∷ 97 ∷ 115 ∷ 32 ∷ 115 ∷
    101 ∷ 108 ∷ 101 ∷ 99 ∷ 116 ∷ 32 ∷ 39 ∷ 97 ∷ 110 ∷ 100 ∷ 32 ∷ 115 ∷ 111 ∷ 32 ∷ 104 ∷ 97 ∷ 115 ∷ 32 ∷ 97 ∷ 32 ∷ 118 ∷ 105 ∷ 101 ∷ 119 ∷ 44 ∷ 32 ∷
    119 ∷ 104 ∷ 111 ∷ 115 ∷ 101 ∷ 32 ∷ 116 ∷ 101 ∷ 120 ∷ 116 ∷ 32 ∷ 105 ∷ 115 ∷ 32 ∷ 108 ∷ 111 ∷ 110 ∷ 103 ∷ 32 ∷ 101 ∷ 110 ∷ 111 ∷ 117 ∷ 103 ∷ 104 ∷
    32 ∷ 116 ∷ 111 ∷ 32 ∷ 102 ∷ 105 ∷ 108 ∷ 108 ∷ 32 ∷ 116 ∷ 104 ∷ 105 ∷ 115 ∷ 32 ∷ 108 ∷ 101 ∷ 97 ∷ 102 ∷ 39 ∷ 44 ∷ 32 ∷ 120 ∷ 32 ∷ 102 ∷ 114 ∷
    111 ∷ 109 ∷ 32 ∷ 97 ∷ 129 ∷ 1 ∷ 2 ∷ 7 ∷ 27 ∷ 15 ∷ 15 ∷ 8 ∷ 129 ∷ 111 ∷ 116 ∷ 114 ∷ 105 ∷ 103 ∷ 103 ∷ 101 ∷ 114 ∷ 103 ∷ 97 ∷ 67 ∷ 82 ∷ 69 ∷ 65 ∷
    84 ∷ 69 ∷ 32 ∷ 84 ∷ 82 ∷ 73 ∷ 71 ∷ 71 ∷ 69 ∷ 82 ∷ 32 ∷ 103 ∷ 32 ∷ 105 ∷ 110 ∷ 115 ∷ 101 ∷ 114 ∷ 116 ∷ 32 ∷ 111 ∷ 110 ∷ 32 ∷ 97 ∷ 32 ∷ 98 ∷ 101 ∷
    103 ∷ 105 ∷ 110 ∷ 32 ∷ 115 ∷ 101 ∷ 108 ∷ 101 ∷ 99 ∷ 116 ∷ 32 ∷ 39 ∷ 97 ∷ 32 ∷ 116 ∷ 114 ∷ 105 ∷ 103 ∷ 103 ∷ 101 ∷ 114 ∷ 32 ∷ 104 ∷ 97 ∷ 115 ∷
    32 ∷ 110 ∷ 111 ∷ 32 ∷ 114 ∷ 111 ∷ 111 ∷ 116 ∷ 32 ∷ 112 ∷ 97 ∷ 103 ∷ 101 ∷ 32 ∷ 111 ∷ 102 ∷ 32 ∷ 105 ∷ 116 ∷ 115 ∷ 32 ∷ 111 ∷ 119 ∷ 110 ∷ 44 ∷
    32 ∷ 115 ∷ 111 ∷ 32 ∷ 105 ∷ 116 ∷ 115 ∷ 32 ∷ 114 ∷ 111 ∷ 119 ∷ 32 ∷ 104 ∷ 97 ∷ 115 ∷ 32 ∷ 122 ∷ 101 ∷ 114 ∷ 111 ∷ 32 ∷ 116 ∷ 104 ∷ 101 ∷ 114 ∷
    101 ∷ 39 ∷ 59 ∷ 32 ∷ 101 ∷ 110 ∷ 100 ∷ 31 ∷ 1 ∷ 6 ∷ 23 ∷ 15 ∷ 15 ∷ 1 ∷ 47 ∷ 116 ∷ 97 ∷ 98 ∷ 108 ∷ 101 ∷ 97 ∷ 97 ∷ 2 ∷ 67 ∷ 82 ∷ 69 ∷ 65 ∷ 84 ∷
    69 ∷ 32 ∷ 84 ∷ 65 ∷ 66 ∷ 76 ∷ 69 ∷ 32 ∷ 97 ∷ 40 ∷ 120 ∷ 41 ∷ replicate 32 0 ++
    -- page 5
    10 ∷ 0 ∷ 0 ∷ 0 ∷ 1 ∷ 1 ∷ 220 ∷ 0 ∷ 1 ∷ 220 ∷ replicate 466 0 ++ 3 ∷ 3 ∷ 9 ∷ 9 ∷ replicate 32 0 ++
    -- page 6
    13 ∷ 0 ∷ 0 ∷ 0 ∷ 2 ∷ 1 ∷ 19 ∷ 0 ∷ 1 ∷ 57 ∷ 1 ∷ 19 ∷ replicate 263 0 ++ 36 ∷ 5 ∷ 6 ∷ 23 ∷ 15 ∷ 15 ∷ 1 ∷ 57 ∷ 105 ∷ 110 ∷ 100 ∷ 101 ∷ 120 ∷ 105 ∷
    98 ∷ 5 ∷ 67 ∷ 82 ∷ 69 ∷ 65 ∷ 84 ∷ 69 ∷ 32 ∷ 73 ∷ 78 ∷ 68 ∷ 69 ∷ 88 ∷ 32 ∷ 105 ∷ 32 ∷ 111 ∷ 110 ∷ 32 ∷ 98 ∷ 40 ∷ 120 ∷ 41 ∷ 129 ∷ 36 ∷ 4 ∷ 7 ∷
    23 ∷ 15 ∷ 15 ∷ 1 ∷ 130 ∷ 55 ∷ 116 ∷ 97 ∷ 98 ∷ 108 ∷ 101 ∷ 98 ∷ 98 ∷ 3 ∷ 67 ∷ 82 ∷ 69 ∷ 65 ∷ 84 ∷ 69 ∷ 32 ∷ 84 ∷ 65 ∷ 66 ∷ 76 ∷ 69 ∷ 32 ∷ 98 ∷
    40 ∷ 120 ∷ 44 ∷ 32 ∷ 121 ∷ 44 ∷ 32 ∷ 122 ∷ 32 ∷ 100 ∷ 101 ∷ 102 ∷ 97 ∷ 117 ∷ 108 ∷ 116 ∷ 32 ∷ 39 ∷ 119 ∷ 105 ∷ 116 ∷ 104 ∷ 32 ∷ 105 ∷ 116 ∷ 115 ∷
    32 ∷ 100 ∷ 101 ∷ 102 ∷ 97 ∷ 117 ∷ 108 ∷ 116 ∷ 32 ∷ 118 ∷ 97 ∷ 108 ∷ 117 ∷ 101 ∷ 32 ∷ 116 ∷ 104 ∷ 105 ∷ 115 ∷ 32 ∷ 116 ∷ 101 ∷ 120 ∷ 116 ∷ 32 ∷
    116 ∷ 97 ∷ 107 ∷ 101 ∷ 115 ∷ 32 ∷ 116 ∷ 104 ∷ 101 ∷ 32 ∷ 115 ∷ 99 ∷ 104 ∷ 101 ∷ 109 ∷ 97 ∷ 32 ∷ 116 ∷ 111 ∷ 32 ∷ 97 ∷ 32 ∷ 115 ∷ 101 ∷ 99 ∷ 111 ∷
    110 ∷ 100 ∷ 32 ∷ 108 ∷ 101 ∷ 97 ∷ 102 ∷ 44 ∷ 32 ∷ 97 ∷ 110 ∷ 100 ∷ 32 ∷ 105 ∷ 116 ∷ 32 ∷ 105 ∷ 115 ∷ 32 ∷ 116 ∷ 104 ∷ 105 ∷ 115 ∷ 32 ∷ 116 ∷
    104 ∷ 97 ∷ 116 ∷ 32 ∷ 116 ∷ 104 ∷ 101 ∷ 32 ∷ 114 ∷ 111 ∷ 111 ∷ 116 ∷ 32 ∷ 110 ∷ 101 ∷ 101 ∷ 100 ∷ 115 ∷ 32 ∷ 116 ∷ 119 ∷ 111 ∷ 32 ∷ 99 ∷ 104 ∷
    105 ∷ 108 ∷ 100 ∷ 114 ∷ 101 ∷ 110 ∷ 39 ∷ 41 ∷ replicate 32 0 ++ []

-- A table tree of three levels; all row numbers but the last are negative, so that each takes nine bytes.
--     pragma page_size = 512;
--     create table t(x);
--     with recursive c(n) as (values(-40) union all select n + 1 from c where n < -4) insert into t(rowid, x) select n, zeroblob(455) from c;
--     insert into t(rowid, x) values (5, 'after');
unfoldable pub levels : List ℕ
levels =
    -- page 1
    83 ∷ 81 ∷ 76 ∷ 105 ∷ 116 ∷ 101 ∷ 32 ∷ 102 ∷ 111 ∷ 114 ∷ 109 ∷ 97 ∷ 116 ∷ 32 ∷ 51 ∷ 0 ∷ 2 ∷ 0 ∷ 1 ∷ 1 ∷ 0 ∷ 64 ∷ 32 ∷ 32 ∷ 0 ∷ 0 ∷ 0 ∷ 3 ∷ 0 ∷ 0 ∷
    0 ∷ 41 ∷ replicate 11 0 ++ 1 ∷ 0 ∷ 0 ∷ 0 ∷ 4 ∷ replicate 11 0 ++ 1 ∷ replicate 35 0 ++ 3 ∷ 0 ∷ 46 ∷ 99 ∷ 1 ∷ 13 ∷ 0 ∷ 0 ∷ 0 ∷ 1 ∷ 1 ∷ 223 ∷ 0 ∷
    1 ∷ 223 ∷ replicate 369 0 ++ 31 ∷ 1 ∷ 6 ∷ 23 ∷ 15 ∷ 15 ∷ 1 ∷ 47 ∷ 116 ∷ 97 ∷ 98 ∷ 108 ∷ 101 ∷ 116 ∷ 116 ∷ 2 ∷ 67 ∷ 82 ∷ 69 ∷ 65 ∷ 84 ∷ 69 ∷ 32 ∷
    84 ∷ 65 ∷ 66 ∷ 76 ∷ 69 ∷ 32 ∷ 116 ∷ 40 ∷ 120 ∷ 41 ∷
    -- page 2
    5 ∷ 0 ∷ 0 ∷ 0 ∷ 1 ∷ 1 ∷ 243 ∷ 0 ∷ 0 ∷ 0 ∷ 0 ∷ 39 ∷ 1 ∷ 243 ∷ replicate 488 0 ++ 38 ∷ replicate 8 255 ++ 233 ∷
    -- page 3
    13 ∷ 0 ∷ 0 ∷ 0 ∷ 1 ∷ 0 ∷ 43 ∷ 0 ∷ 0 ∷ 43 ∷ replicate 33 0 ++ 131 ∷ 74 ∷ replicate 8 255 ++ 216 ∷ 3 ∷ 135 ∷ 26 ∷ replicate 455 0 ++
    -- page 4
    13 ∷ 0 ∷ 0 ∷ 0 ∷ 1 ∷ 0 ∷ 43 ∷ 0 ∷ 0 ∷ 43 ∷ replicate 33 0 ++ 131 ∷ 74 ∷ replicate 8 255 ++ 217 ∷ 3 ∷ 135 ∷ 26 ∷ replicate 455 0 ++
    -- page 5
    13 ∷ 0 ∷ 0 ∷ 0 ∷ 1 ∷ 0 ∷ 43 ∷ 0 ∷ 0 ∷ 43 ∷ replicate 33 0 ++ 131 ∷ 74 ∷ replicate 8 255 ++ 218 ∷ 3 ∷ 135 ∷ 26 ∷ replicate 455 0 ++
    -- page 6
    13 ∷ 0 ∷ 0 ∷ 0 ∷ 1 ∷ 0 ∷ 43 ∷ 0 ∷ 0 ∷ 43 ∷ replicate 33 0 ++ 131 ∷ 74 ∷ replicate 8 255 ++ 219 ∷ 3 ∷ 135 ∷ 26 ∷ replicate 455 0 ++
    -- page 7
    13 ∷ 0 ∷ 0 ∷ 0 ∷ 1 ∷ 0 ∷ 43 ∷ 0 ∷ 0 ∷ 43 ∷ replicate 33 0 ++ 131 ∷ 74 ∷ replicate 8 255 ++ 220 ∷ 3 ∷ 135 ∷ 26 ∷ replicate 455 0 ++
    -- page 8
    13 ∷ 0 ∷ 0 ∷ 0 ∷ 1 ∷ 0 ∷ 43 ∷ 0 ∷ 0 ∷ 43 ∷ replicate 33 0 ++ 131 ∷ 74 ∷ replicate 8 255 ++ 221 ∷ 3 ∷ 135 ∷ 26 ∷ replicate 455 0 ++
    -- page 9
    13 ∷ 0 ∷ 0 ∷ 0 ∷ 1 ∷ 0 ∷ 43 ∷ 0 ∷ 0 ∷ 43 ∷ replicate 33 0 ++ 131 ∷ 74 ∷ replicate 8 255 ++ 222 ∷ 3 ∷ 135 ∷ 26 ∷ replicate 455 0 ++
    -- page 10
    13 ∷ 0 ∷ 0 ∷ 0 ∷ 1 ∷ 0 ∷ 43 ∷ 0 ∷ 0 ∷ 43 ∷ replicate 33 0 ++ 131 ∷ 74 ∷ replicate 8 255 ++ 223 ∷ 3 ∷ 135 ∷ 26 ∷ replicate 455 0 ++
    -- page 11
    13 ∷ 0 ∷ 0 ∷ 0 ∷ 1 ∷ 0 ∷ 43 ∷ 0 ∷ 0 ∷ 43 ∷ replicate 33 0 ++ 131 ∷ 74 ∷ replicate 8 255 ++ 224 ∷ 3 ∷ 135 ∷ 26 ∷ replicate 455 0 ++
    -- page 12
    13 ∷ 0 ∷ 0 ∷ 0 ∷ 1 ∷ 0 ∷ 43 ∷ 0 ∷ 0 ∷ 43 ∷ replicate 33 0 ++ 131 ∷ 74 ∷ replicate 8 255 ++ 225 ∷ 3 ∷ 135 ∷ 26 ∷ replicate 455 0 ++
    -- page 13
    13 ∷ 0 ∷ 0 ∷ 0 ∷ 1 ∷ 0 ∷ 43 ∷ 0 ∷ 0 ∷ 43 ∷ replicate 33 0 ++ 131 ∷ 74 ∷ replicate 8 255 ++ 226 ∷ 3 ∷ 135 ∷ 26 ∷ replicate 455 0 ++
    -- page 14
    13 ∷ 0 ∷ 0 ∷ 0 ∷ 1 ∷ 0 ∷ 43 ∷ 0 ∷ 0 ∷ 43 ∷ replicate 33 0 ++ 131 ∷ 74 ∷ replicate 8 255 ++ 227 ∷ 3 ∷ 135 ∷ 26 ∷ replicate 455 0 ++
    -- page 15
    13 ∷ 0 ∷ 0 ∷ 0 ∷ 1 ∷ 0 ∷ 43 ∷ 0 ∷ 0 ∷ 43 ∷ replicate 33 0 ++ 131 ∷ 74 ∷ replicate 8 255 ++ 228 ∷ 3 ∷ 135 ∷ 26 ∷ replicate 455 0 ++
    -- page 16
    13 ∷ 0 ∷ 0 ∷ 0 ∷ 1 ∷ 0 ∷ 43 ∷ 0 ∷ 0 ∷ 43 ∷ replicate 33 0 ++ 131 ∷ 74 ∷ replicate 8 255 ++ 229 ∷ 3 ∷ 135 ∷ 26 ∷ replicate 455 0 ++
    -- page 17
    13 ∷ 0 ∷ 0 ∷ 0 ∷ 1 ∷ 0 ∷ 43 ∷ 0 ∷ 0 ∷ 43 ∷ replicate 33 0 ++ 131 ∷ 74 ∷ replicate 8 255 ++ 230 ∷ 3 ∷ 135 ∷ 26 ∷ replicate 455 0 ++
    -- page 18
    13 ∷ 0 ∷ 0 ∷ 0 ∷ 1 ∷ 0 ∷ 43 ∷ 0 ∷ 0 ∷ 43 ∷ replicate 33 0 ++ 131 ∷ 74 ∷ replicate 8 255 ++ 231 ∷ 3 ∷ 135 ∷ 26 ∷ replicate 455 0 ++
    -- page 19
    13 ∷ 0 ∷ 0 ∷ 0 ∷ 1 ∷ 0 ∷ 43 ∷ 0 ∷ 0 ∷ 43 ∷ replicate 33 0 ++ 131 ∷ 74 ∷ replicate 8 255 ++ 232 ∷ 3 ∷ 135 ∷ 26 ∷ replicate 455 0 ++
    -- page 20
    13 ∷ 0 ∷ 0 ∷ 0 ∷ 1 ∷ 0 ∷ 43 ∷ 0 ∷ 0 ∷ 43 ∷ replicate 33 0 ++ 131 ∷ 74 ∷ replicate 8 255 ++ 233 ∷ 3 ∷ 135 ∷ 26 ∷ replicate 455 0 ++
    -- page 21
    13 ∷ 0 ∷ 0 ∷ 0 ∷ 1 ∷ 0 ∷ 43 ∷ 0 ∷ 0 ∷ 43 ∷ replicate 33 0 ++ 131 ∷ 74 ∷ replicate 8 255 ++ 234 ∷ 3 ∷ 135 ∷ 26 ∷ replicate 455 0 ++
    -- page 22
    13 ∷ 0 ∷ 0 ∷ 0 ∷ 1 ∷ 0 ∷ 43 ∷ 0 ∷ 0 ∷ 43 ∷ replicate 33 0 ++ 131 ∷ 74 ∷ replicate 8 255 ++ 235 ∷ 3 ∷ 135 ∷ 26 ∷ replicate 455 0 ++
    -- page 23
    13 ∷ 0 ∷ 0 ∷ 0 ∷ 1 ∷ 0 ∷ 43 ∷ 0 ∷ 0 ∷ 43 ∷ replicate 33 0 ++ 131 ∷ 74 ∷ replicate 8 255 ++ 236 ∷ 3 ∷ 135 ∷ 26 ∷ replicate 455 0 ++
    -- page 24
    13 ∷ 0 ∷ 0 ∷ 0 ∷ 1 ∷ 0 ∷ 43 ∷ 0 ∷ 0 ∷ 43 ∷ replicate 33 0 ++ 131 ∷ 74 ∷ replicate 8 255 ++ 237 ∷ 3 ∷ 135 ∷ 26 ∷ replicate 455 0 ++
    -- page 25
    13 ∷ 0 ∷ 0 ∷ 0 ∷ 1 ∷ 0 ∷ 43 ∷ 0 ∷ 0 ∷ 43 ∷ replicate 33 0 ++ 131 ∷ 74 ∷ replicate 8 255 ++ 238 ∷ 3 ∷ 135 ∷ 26 ∷ replicate 455 0 ++
    -- page 26
    13 ∷ 0 ∷ 0 ∷ 0 ∷ 1 ∷ 0 ∷ 43 ∷ 0 ∷ 0 ∷ 43 ∷ replicate 33 0 ++ 131 ∷ 74 ∷ replicate 8 255 ++ 239 ∷ 3 ∷ 135 ∷ 26 ∷ replicate 455 0 ++
    -- page 27
    13 ∷ 0 ∷ 0 ∷ 0 ∷ 1 ∷ 0 ∷ 43 ∷ 0 ∷ 0 ∷ 43 ∷ replicate 33 0 ++ 131 ∷ 74 ∷ replicate 8 255 ++ 240 ∷ 3 ∷ 135 ∷ 26 ∷ replicate 455 0 ++
    -- page 28
    13 ∷ 0 ∷ 0 ∷ 0 ∷ 1 ∷ 0 ∷ 43 ∷ 0 ∷ 0 ∷ 43 ∷ replicate 33 0 ++ 131 ∷ 74 ∷ replicate 8 255 ++ 241 ∷ 3 ∷ 135 ∷ 26 ∷ replicate 455 0 ++
    -- page 29
    13 ∷ 0 ∷ 0 ∷ 0 ∷ 1 ∷ 0 ∷ 43 ∷ 0 ∷ 0 ∷ 43 ∷ replicate 33 0 ++ 131 ∷ 74 ∷ replicate 8 255 ++ 242 ∷ 3 ∷ 135 ∷ 26 ∷ replicate 455 0 ++
    -- page 30
    13 ∷ 0 ∷ 0 ∷ 0 ∷ 1 ∷ 0 ∷ 43 ∷ 0 ∷ 0 ∷ 43 ∷ replicate 33 0 ++ 131 ∷ 74 ∷ replicate 8 255 ++ 243 ∷ 3 ∷ 135 ∷ 26 ∷ replicate 455 0 ++
    -- page 31
    13 ∷ 0 ∷ 0 ∷ 0 ∷ 1 ∷ 0 ∷ 43 ∷ 0 ∷ 0 ∷ 43 ∷ replicate 33 0 ++ 131 ∷ 74 ∷ replicate 8 255 ++ 244 ∷ 3 ∷ 135 ∷ 26 ∷ replicate 455 0 ++
    -- page 32
    13 ∷ 0 ∷ 0 ∷ 0 ∷ 1 ∷ 0 ∷ 43 ∷ 0 ∷ 0 ∷ 43 ∷ replicate 33 0 ++ 131 ∷ 74 ∷ replicate 8 255 ++ 245 ∷ 3 ∷ 135 ∷ 26 ∷ replicate 455 0 ++
    -- page 33
    13 ∷ 0 ∷ 0 ∷ 0 ∷ 1 ∷ 0 ∷ 43 ∷ 0 ∷ 0 ∷ 43 ∷ replicate 33 0 ++ 131 ∷ 74 ∷ replicate 8 255 ++ 246 ∷ 3 ∷ 135 ∷ 26 ∷ replicate 455 0 ++
    -- page 34
    13 ∷ 0 ∷ 0 ∷ 0 ∷ 1 ∷ 0 ∷ 43 ∷ 0 ∷ 0 ∷ 43 ∷ replicate 33 0 ++ 131 ∷ 74 ∷ replicate 8 255 ++ 247 ∷ 3 ∷ 135 ∷ 26 ∷ replicate 455 0 ++
    -- page 35
    13 ∷ 0 ∷ 0 ∷ 0 ∷ 1 ∷ 0 ∷ 43 ∷ 0 ∷ 0 ∷ 43 ∷ replicate 33 0 ++ 131 ∷ 74 ∷ replicate 8 255 ++ 248 ∷ 3 ∷ 135 ∷ 26 ∷ replicate 455 0 ++
    -- page 36
    13 ∷ 0 ∷ 0 ∷ 0 ∷ 1 ∷ 0 ∷ 43 ∷ 0 ∷ 0 ∷ 43 ∷ replicate 33 0 ++ 131 ∷ 74 ∷ replicate 8 255 ++ 249 ∷ 3 ∷ 135 ∷ 26 ∷ replicate 455 0 ++
    -- page 37
    13 ∷ 0 ∷ 0 ∷ 0 ∷ 1 ∷ 0 ∷ 43 ∷ 0 ∷ 0 ∷ 43 ∷ replicate 33 0 ++ 131 ∷ 74 ∷ replicate 8 255 ++ 250 ∷ 3 ∷ 135 ∷ 26 ∷ replicate 455 0 ++
    -- page 38
    5 ∷ 0 ∷ 0 ∷ 0 ∷ 17 ∷ 1 ∷ 35 ∷ 0 ∷ 0 ∷ 0 ∷ 0 ∷ 20 ∷ 1 ∷ 243 ∷ 1 ∷ 230 ∷ 1 ∷ 217 ∷ 1 ∷ 204 ∷ 1 ∷ 191 ∷ 1 ∷ 178 ∷ 1 ∷ 165 ∷ 1 ∷ 152 ∷ 1 ∷ 139 ∷ 1 ∷
    126 ∷ 1 ∷ 113 ∷ 1 ∷ 100 ∷ 1 ∷ 87 ∷ 1 ∷ 74 ∷ 1 ∷ 61 ∷ 1 ∷ 48 ∷ 1 ∷ 35 ∷ 1 ∷ 22 ∷ 1 ∷ 9 ∷ 0 ∷ 252 ∷ 0 ∷ 239 ∷ 0 ∷ 226 ∷ 0 ∷ 213 ∷ 0 ∷ 200 ∷ 0 ∷
    187 ∷ 0 ∷ 174 ∷ 0 ∷ 161 ∷ 0 ∷ 148 ∷ 0 ∷ 135 ∷ 0 ∷ 122 ∷ 0 ∷ 109 ∷ 0 ∷ 96 ∷ 0 ∷ 83 ∷ replicate 8 0 ++ 208 ∷ replicate 207 0 ++ 19 ∷
    replicate 8 255 ++ 232 ∷ 0 ∷ 0 ∷ 0 ∷ 18 ∷ replicate 8 255 ++ 231 ∷ 0 ∷ 0 ∷ 0 ∷ 17 ∷ replicate 8 255 ++ 230 ∷ 0 ∷ 0 ∷ 0 ∷ 16 ∷ replicate 8 255 ++
    229 ∷ 0 ∷ 0 ∷ 0 ∷ 15 ∷ replicate 8 255 ++ 228 ∷ 0 ∷ 0 ∷ 0 ∷ 14 ∷ replicate 8 255 ++ 227 ∷ 0 ∷ 0 ∷ 0 ∷ 13 ∷ replicate 8 255 ++ 226 ∷ 0 ∷ 0 ∷ 0 ∷
    12 ∷ replicate 8 255 ++ 225 ∷ 0 ∷ 0 ∷ 0 ∷ 11 ∷ replicate 8 255 ++ 224 ∷ 0 ∷ 0 ∷ 0 ∷ 10 ∷ replicate 8 255 ++ 223 ∷ 0 ∷ 0 ∷ 0 ∷ 9 ∷
    replicate 8 255 ++ 222 ∷ 0 ∷ 0 ∷ 0 ∷ 8 ∷ replicate 8 255 ++ 221 ∷ 0 ∷ 0 ∷ 0 ∷ 7 ∷ replicate 8 255 ++ 220 ∷ 0 ∷ 0 ∷ 0 ∷ 6 ∷ replicate 8 255 ++
    219 ∷ 0 ∷ 0 ∷ 0 ∷ 5 ∷ replicate 8 255 ++ 218 ∷ 0 ∷ 0 ∷ 0 ∷ 4 ∷ replicate 8 255 ++ 217 ∷ 0 ∷ 0 ∷ 0 ∷ 3 ∷ replicate 8 255 ++ 216 ∷
    -- page 39
    5 ∷ 0 ∷ 0 ∷ 0 ∷ 18 ∷ 1 ∷ 22 ∷ 0 ∷ 0 ∷ 0 ∷ 0 ∷ 41 ∷ 1 ∷ 243 ∷ 1 ∷ 230 ∷ 1 ∷ 217 ∷ 1 ∷ 204 ∷ 1 ∷ 191 ∷ 1 ∷ 178 ∷ 1 ∷ 165 ∷ 1 ∷ 152 ∷ 1 ∷ 139 ∷ 1 ∷
    126 ∷ 1 ∷ 113 ∷ 1 ∷ 100 ∷ 1 ∷ 87 ∷ 1 ∷ 74 ∷ 1 ∷ 61 ∷ 1 ∷ 48 ∷ 1 ∷ 35 ∷ 1 ∷ 22 ∷ replicate 233 0 ++ 40 ∷ replicate 8 255 ++ 251 ∷ 0 ∷ 0 ∷ 0 ∷ 37 ∷
    replicate 8 255 ++ 250 ∷ 0 ∷ 0 ∷ 0 ∷ 36 ∷ replicate 8 255 ++ 249 ∷ 0 ∷ 0 ∷ 0 ∷ 35 ∷ replicate 8 255 ++ 248 ∷ 0 ∷ 0 ∷ 0 ∷ 34 ∷ replicate 8 255 ++
    247 ∷ 0 ∷ 0 ∷ 0 ∷ 33 ∷ replicate 8 255 ++ 246 ∷ 0 ∷ 0 ∷ 0 ∷ 32 ∷ replicate 8 255 ++ 245 ∷ 0 ∷ 0 ∷ 0 ∷ 31 ∷ replicate 8 255 ++ 244 ∷ 0 ∷ 0 ∷ 0 ∷
    30 ∷ replicate 8 255 ++ 243 ∷ 0 ∷ 0 ∷ 0 ∷ 29 ∷ replicate 8 255 ++ 242 ∷ 0 ∷ 0 ∷ 0 ∷ 28 ∷ replicate 8 255 ++ 241 ∷ 0 ∷ 0 ∷ 0 ∷ 27 ∷
    replicate 8 255 ++ 240 ∷ 0 ∷ 0 ∷ 0 ∷ 26 ∷ replicate 8 255 ++ 239 ∷ 0 ∷ 0 ∷ 0 ∷ 25 ∷ replicate 8 255 ++ 238 ∷ 0 ∷ 0 ∷ 0 ∷ 24 ∷ replicate 8 255 ++
    237 ∷ 0 ∷ 0 ∷ 0 ∷ 23 ∷ replicate 8 255 ++ 236 ∷ 0 ∷ 0 ∷ 0 ∷ 22 ∷ replicate 8 255 ++ 235 ∷ 0 ∷ 0 ∷ 0 ∷ 21 ∷ replicate 8 255 ++ 234 ∷
    -- page 40
    13 ∷ 0 ∷ 0 ∷ 0 ∷ 1 ∷ 0 ∷ 43 ∷ 0 ∷ 0 ∷ 43 ∷ replicate 33 0 ++ 131 ∷ 74 ∷ replicate 8 255 ++ 251 ∷ 3 ∷ 135 ∷ 26 ∷ replicate 455 0 ++
    -- page 41
    13 ∷ 0 ∷ 0 ∷ 0 ∷ 2 ∷ 0 ∷ 34 ∷ 0 ∷ 0 ∷ 43 ∷ 0 ∷ 34 ∷ replicate 22 0 ++ 7 ∷ 5 ∷ 2 ∷ 23 ∷ 97 ∷ 102 ∷ 116 ∷ 101 ∷ 114 ∷ 131 ∷ 74 ∷ replicate 8 255 ++
    252 ∷ 3 ∷ 135 ∷ 26 ∷ replicate 455 0 ++ []

-- A pointer map on page 2: a table tree of two levels (t), a payload over two overflow pages (o), a freelist.
--     pragma page_size = 512;
--     pragma auto_vacuum = incremental;
--     pragma secure_delete = on;
--     create table t(x);
--     create table o(x);
--     create table d(x);
--     insert into t values (zeroblob(230)), (zeroblob(230)), (zeroblob(230));
--     insert into o values (printf('%.1200c', 'a'));
--     insert into d values (zeroblob(1000));
--     drop table d;
unfoldable pub vacuums : List ℕ
vacuums =
    -- page 1
    83 ∷ 81 ∷ 76 ∷ 105 ∷ 116 ∷ 101 ∷ 32 ∷ 102 ∷ 111 ∷ 114 ∷ 109 ∷ 97 ∷ 116 ∷ 32 ∷ 51 ∷ 0 ∷ 2 ∷ 0 ∷ 1 ∷ 1 ∷ 0 ∷ 64 ∷ 32 ∷ 32 ∷ 0 ∷ 0 ∷ 0 ∷ 8 ∷ 0 ∷ 0 ∷
    0 ∷ 11 ∷ 0 ∷ 0 ∷ 0 ∷ 10 ∷ 0 ∷ 0 ∷ 0 ∷ 3 ∷ 0 ∷ 0 ∷ 0 ∷ 4 ∷ 0 ∷ 0 ∷ 0 ∷ 4 ∷ replicate 7 0 ++ 4 ∷ 0 ∷ 0 ∷ 0 ∷ 1 ∷ replicate 7 0 ++ 1 ∷
    replicate 27 0 ++ 8 ∷ 0 ∷ 46 ∷ 99 ∷ 1 ∷ 13 ∷ 0 ∷ 0 ∷ 0 ∷ 2 ∷ 1 ∷ 190 ∷ 0 ∷ 1 ∷ 223 ∷ 1 ∷ 190 ∷ 1 ∷ 157 ∷ replicate 302 0 ++ 33 ∷ replicate 29 0 ++
    31 ∷ 2 ∷ 6 ∷ 23 ∷ 15 ∷ 15 ∷ 1 ∷ 47 ∷ 116 ∷ 97 ∷ 98 ∷ 108 ∷ 101 ∷ 111 ∷ 111 ∷ 4 ∷ 67 ∷ 82 ∷ 69 ∷ 65 ∷ 84 ∷ 69 ∷ 32 ∷ 84 ∷ 65 ∷ 66 ∷ 76 ∷ 69 ∷ 32 ∷
    111 ∷ 40 ∷ 120 ∷ 41 ∷ 31 ∷ 1 ∷ 6 ∷ 23 ∷ 15 ∷ 15 ∷ 1 ∷ 47 ∷ 116 ∷ 97 ∷ 98 ∷ 108 ∷ 101 ∷ 116 ∷ 116 ∷ 3 ∷ 67 ∷ 82 ∷ 69 ∷ 65 ∷ 84 ∷ 69 ∷ 32 ∷ 84 ∷ 65 ∷
    66 ∷ 76 ∷ 69 ∷ 32 ∷ 116 ∷ 40 ∷ 120 ∷ 41 ∷
    -- page 2
    1 ∷ 0 ∷ 0 ∷ 0 ∷ 0 ∷ 1 ∷ 0 ∷ 0 ∷ 0 ∷ 0 ∷ 2 ∷ 0 ∷ 0 ∷ 0 ∷ 0 ∷ 5 ∷ 0 ∷ 0 ∷ 0 ∷ 3 ∷ 5 ∷ 0 ∷ 0 ∷ 0 ∷ 3 ∷ 3 ∷ 0 ∷ 0 ∷ 0 ∷ 4 ∷ 4 ∷ 0 ∷ 0 ∷ 0 ∷ 8 ∷ 2 ∷ 0 ∷
    0 ∷ 0 ∷ 0 ∷ 2 ∷ replicate 471 0 ++
    -- page 3
    5 ∷ 0 ∷ 0 ∷ 0 ∷ 1 ∷ 1 ∷ 251 ∷ 0 ∷ 0 ∷ 0 ∷ 0 ∷ 7 ∷ 1 ∷ 251 ∷ replicate 496 0 ++ 6 ∷ 2 ∷
    -- page 4
    13 ∷ 0 ∷ 0 ∷ 0 ∷ 1 ∷ 1 ∷ 62 ∷ 0 ∷ 1 ∷ 62 ∷ replicate 308 0 ++ 137 ∷ 51 ∷ 1 ∷ 3 ∷ 146 ∷ 109 ∷ replicate 184 97 ++ 0 ∷ 0 ∷ 0 ∷ 8 ∷
    -- page 5
    replicate 512 0 ++
    -- page 6
    13 ∷ 0 ∷ 0 ∷ 0 ∷ 2 ∷ 0 ∷ 40 ∷ 0 ∷ 1 ∷ 20 ∷ 0 ∷ 40 ∷ replicate 28 0 ++ 129 ∷ 105 ∷ 2 ∷ 3 ∷ 131 ∷ 88 ∷ replicate 230 0 ++ 129 ∷ 105 ∷ 1 ∷ 3 ∷ 131 ∷
    88 ∷ replicate 230 0 ++
    -- page 7
    13 ∷ 0 ∷ 0 ∷ 0 ∷ 1 ∷ 1 ∷ 20 ∷ 0 ∷ 1 ∷ 20 ∷ replicate 266 0 ++ 129 ∷ 105 ∷ 3 ∷ 3 ∷ 131 ∷ 88 ∷ replicate 230 0 ++
    -- page 8
    0 ∷ 0 ∷ 0 ∷ 9 ∷ replicate 508 97 ++
    -- page 9
    0 ∷ 0 ∷ 0 ∷ 0 ∷ replicate 508 97 ++
    -- page 10
    replicate 7 0 ++ 2 ∷ 0 ∷ 0 ∷ 0 ∷ 11 ∷ 0 ∷ 0 ∷ 0 ∷ 5 ∷ replicate 496 0 ++
    -- page 11
    replicate 512 0 ++ []
