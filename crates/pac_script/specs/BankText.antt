-- The text of the bank's catalogue.
use Rattle.std.specs.Prelude.{ℕ, List, ◌++◌, codes}

-- it is canonical
unfoldable pub bank_text : List ℕ
bank_text =
    codes "table Family(key int, spouse int);\n"
    ++ codes "table Current(key int, value int);\n"
    ++ codes "table Saving(key int, value int);\n"
    ++ codes "table Stats(key int, count int);\n"
    ++ codes "proc Transfer(src int, amount int) {\n"
    ++ codes "  read dst = Family[src].spouse default 0;\n"
    ++ codes "  if dst != 0 {\n"
    ++ codes "    read a = Current[src].value default 0;\n"
    ++ codes "    put Current[src] = (a - amount);\n"
    ++ codes "    read b = Current[dst].value default 0;\n"
    ++ codes "    put Current[dst] = (b + amount);\n"
    ++ codes "    read s = Saving[src].value default 0;\n"
    ++ codes "    put Saving[src] = (s + 1);\n"
    ++ codes "  }\n"
    ++ codes "}\n"
    ++ codes "proc Deposit(name int, amount int, nation int) {\n"
    ++ codes "  read v = Current[name].value default 0;\n"
    ++ codes "  put Current[name] = (v + amount);\n"
    ++ codes "  if v + amount > 10000 {\n"
    ++ codes "    read s = Saving[name].value default 0;\n"
    ++ codes "    put Saving[name] = (s + v / 50);\n"
    ++ codes "  }\n"
    ++ codes "  read n = Stats[nation].count default 0;\n"
    ++ codes "  put Stats[nation] = (n + 1);\n"
    ++ codes "}\n"
