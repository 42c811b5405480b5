-- A sheet that refuses what another one cuts or lets differ. Document 01, "Lines", tail, and "Numbers returned", 10 and 14. Assumes nothing.
use Rattle.std.specs.Prelude.{Bool, true, false}
use Rattle.sheet.specs.declared.Sheet.{Sheet}
use Rattle.sheet.specs.declared.Style.{Style}

-- a part or a name of more than 35 bytes is refused with 14; all else is as the style has it
abbrev pub uncutting : Style → Style
uncutting y = record { av = y.av; may = y.may; names = y.names; cuts = false; clean = y.clean; most = y.most }

-- a sheet with another style of texts and another answer to totals that differ; all else is as the sheet has it
abbrev pub restyled : Sheet → Style → Bool → Sheet
restyled sh y strict =
    record {
      number = sh.number;
      letter = sh.letter;
      bank = sh.bank;
      anybank = sh.anybank;
      lastkind = sh.lastkind;
      header = sh.header;
      short = sh.short;
      interval = sh.interval;
      joined = sh.joined;
      basemin = sh.basemin;
      emptypayer = sh.emptypayer;
      zeropayer = sh.zeropayer;
      longdate = sh.longdate;
      ahead = sh.ahead;
      early = sh.early;
      warnpast = sh.warnpast;
      collects = sh.collects;
      near = sh.near;
      itemdigits = sh.itemdigits;
      itemmax = sh.itemmax;
      comma = sh.comma;
      priority = sh.priority;
      fixedtail = sh.fixedtail;
      bare = sh.bare;
      text = y;
      strict = strict;
      fileitems = sh.fileitems;
    }

-- .. and a total that differs from the sum is refused with 10
abbrev pub severe : Sheet → Sheet
severe sh = restyled sh (uncutting sh.text) true
