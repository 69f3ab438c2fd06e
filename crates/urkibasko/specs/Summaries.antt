use Rattle.log_summary.specs.Summary as L
use Rattle.journal_summary.specs.Summary as J
use Rattle.urkibasko.specs.declared.summaries.UrkLogSummary.{UrkLogSummary}
use Rattle.urkibasko.specs.declared.summaries.UrkJournalSummary.{UrkJournalSummary}

-- the same fields, there and back
abbrev pub log_summary_c : L.Summary → UrkLogSummary
log_summary_c s =
    record {
      refusal = s.refusal;
      header = s.header;
      page_size = s.page_size;
      pages = s.pages;
      frames = s.frames;
      counting = s.counting;
      in_force = s.in_force;
      stop = s.stop;
    }

abbrev pub of_log_c : UrkLogSummary → L.Summary
of_log_c s =
    record {
      refusal = s.refusal;
      header = s.header;
      page_size = s.page_size;
      pages = s.pages;
      frames = s.frames;
      counting = s.counting;
      in_force = s.in_force;
      stop = s.stop;
    }

abbrev pub journal_summary_c : J.Summary → UrkJournalSummary
journal_summary_c s =
    record {
      refusal = s.refusal;
      header = s.header;
      page_size = s.page_size;
      sector_size = s.sector_size;
      pages = s.pages;
      segments = s.segments;
      counting = s.counting;
      laid = s.laid;
      stop = s.stop;
    }

abbrev pub of_journal_c : UrkJournalSummary → J.Summary
of_journal_c s =
    record {
      refusal = s.refusal;
      header = s.header;
      page_size = s.page_size;
      sector_size = s.sector_size;
      pages = s.pages;
      segments = s.segments;
      counting = s.counting;
      laid = s.laid;
      stop = s.stop;
    }
